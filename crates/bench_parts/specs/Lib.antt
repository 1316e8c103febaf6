pub mod Laden

pub mod Exporters

pub mod Small
pub mod Starting
pub mod WithoutExports
pub mod Apart

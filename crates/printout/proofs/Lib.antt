pub mod LineLaws
pub mod Taking
pub mod Printed
pub mod NeverEight
pub mod Examples
pub mod Loops

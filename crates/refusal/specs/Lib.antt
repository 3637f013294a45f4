pub mod Printed
pub mod Asking

pub mod ShowFaults
pub mod ShownImage
pub mod ShownDevicetree

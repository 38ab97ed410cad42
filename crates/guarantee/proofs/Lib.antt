pub mod Demand3
pub mod SheetCalls
pub mod SheetFilter
pub mod Figures
pub mod Joining

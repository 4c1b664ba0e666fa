pub mod Order
pub mod PriorityList
pub mod Keys
pub mod Ready
pub mod Pending
pub mod DueTimes
pub mod Requests

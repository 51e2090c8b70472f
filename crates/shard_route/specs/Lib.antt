pub mod Routing
pub mod RoutingLaws

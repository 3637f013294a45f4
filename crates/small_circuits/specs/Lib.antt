pub mod SmallCircuits

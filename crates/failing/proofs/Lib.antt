mod Packed
mod Filling
mod Agreed
mod InLanes
mod Unexplained

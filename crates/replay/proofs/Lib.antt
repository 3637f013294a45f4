mod SetsAsked
mod Forcings
mod Writing
mod Replayed
mod KnownOutputs

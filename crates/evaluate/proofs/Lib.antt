mod Numbered
mod KindImages
mod ForcedPlaces
mod GateCount
mod GateByGate

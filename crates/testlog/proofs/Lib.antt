mod TableItems
mod Places

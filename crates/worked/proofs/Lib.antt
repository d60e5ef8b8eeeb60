mod Played
mod Readings
mod Texts

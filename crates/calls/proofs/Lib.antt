mod Levelling
mod Telling

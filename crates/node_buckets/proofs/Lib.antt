mod Linking
mod Moving

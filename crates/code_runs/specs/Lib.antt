pub mod CodeData
pub mod CodeThreads
pub mod SharedStops
pub mod Layouts
pub mod CodeMoves
pub mod CodeWaits
pub mod CodeInstalls

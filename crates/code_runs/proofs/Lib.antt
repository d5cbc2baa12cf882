mod Examples
mod SmallRun
mod SmallInstalls

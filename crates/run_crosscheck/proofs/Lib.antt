mod FirstDifferences
mod AnsweredOnce
mod Patches
mod Follow

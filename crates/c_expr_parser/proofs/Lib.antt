pub mod Samples
pub mod Examples
pub mod Beginnings
mod OneKind
mod Tables
mod PlanExamples
pub mod JoinedTraces
pub mod PlanResults
pub mod OperandContinuations
pub mod OperandBeginnings
pub mod FunctionReturns
pub mod ExpressionAnswers
pub mod CompletePlans
pub mod CompleteWords
pub mod CompleteTokens
pub mod CompleteEnds
pub mod CompleteTypes
pub mod CompleteLoops
pub mod CompleteRests
pub mod CompleteExpressions
pub mod TraceMeaning
pub mod WantedMeaning
pub mod SoundTables
mod SoundTypes
pub mod SoundTerminals
mod SoundEnds
mod SoundRest
mod SoundAssignment
mod SoundCalls
mod SoundOperands
mod SoundParts
pub mod SoundExpressions
mod TraceParts
mod ExactPlans
pub mod ExpressionLaws
pub mod IntegerTypeWords
pub mod StringReading
pub mod TypeReading

mod RunAnswers
mod Outcomes

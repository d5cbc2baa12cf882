mod TextAnswers

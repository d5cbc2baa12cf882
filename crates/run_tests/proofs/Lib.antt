mod OneSlot
mod ReadTexts

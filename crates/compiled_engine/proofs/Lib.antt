mod MetNeeds
mod TextsOfPrograms

pub mod TypedTexts

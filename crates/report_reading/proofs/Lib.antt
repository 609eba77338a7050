pub mod Feeds
mod Found
pub mod Cut
mod NumberAgain
mod AnswersAgain
pub mod LinesAgain
mod DataPieces
mod EndPieces
mod CutWords

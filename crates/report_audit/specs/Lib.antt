pub mod Lines
pub mod Progress
pub mod Answers
pub mod AuditTexts
pub mod Auditor

-- Laws on the audit's answers.
pub mod AuditLaws

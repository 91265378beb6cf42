pub mod AuditLemmas
pub mod PlanAuditLemmas
pub mod ResumeLemmas
pub mod BareResumeLemmas
pub mod Came
pub mod RunResumeLemmas

pub mod Causes
pub mod JudgeLines
pub mod Named
pub mod VerdictLines
pub mod TaskPlans

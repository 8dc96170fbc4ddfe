pub mod JoinedVerdicts
pub mod RunsStanding
pub mod RunsGoneOn
pub mod VerdictSoFar
pub mod VerdictReached

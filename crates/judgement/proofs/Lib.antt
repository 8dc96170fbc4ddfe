pub mod RunsSettled
pub mod SettledStandings
pub mod StandingsKnown
pub mod VerdictOnAll

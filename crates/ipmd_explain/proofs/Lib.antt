mod StandingLaws
mod ReadingLaws
mod WordLaws

pub mod PlayingOut

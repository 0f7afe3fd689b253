pub mod OfCase

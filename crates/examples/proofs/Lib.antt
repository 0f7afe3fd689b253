-- damaged forms of KILN, and KILN with every fault mended one after the other
pub mod Damaged
pub mod Mended
-- a middling case, and cases at the limits of their numbers
pub mod Dale
pub mod Limits
-- interconnectors: what they bring in, and 13 in its place
pub mod Links
-- version 2 files: circuits with a factor of their own, and what 1 and 4 refuse
pub mod Subsea
-- edition 2: damaged forms of its case, and a case with every fault mended one after the other
pub mod Backgrounds
pub mod MendedBoth
-- definitions that are hard to see, each computed at an example
pub mod HardToSee

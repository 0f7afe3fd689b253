-- laws of the definitions
pub mod Rows
pub mod Columns
pub mod Made
pub mod First
pub mod Says
pub mod Systems
pub mod Answers
pub mod Table
pub mod Kept
pub mod Order
pub mod Tests
pub mod Walk
pub mod Networks
pub mod Plants
pub mod Shares
pub mod Generation
pub mod Chains
pub mod Shared
pub mod Sides
pub mod Bases
pub mod Sheets
pub mod Mirror
pub mod Centre
pub mod Frame
pub mod Lengths
pub mod Tables
-- the stages judge the conditions of 01's order
pub mod Whole
pub mod Proposals
pub mod Judged
-- 02, request 3: files of two versions
pub mod Versions
pub mod Twins
-- 02, request 12: what distances are said by
pub mod Directions
-- the definitions computed: the starred rows, case KILN and its damaged forms, interconnectors, a case of edition 2, five zones with a share file
pub mod Write
pub mod Opened
pub mod Starred
pub mod Kiln
pub mod Small
pub mod Links
pub mod Both
pub mod FiveZones
-- 02, request 5: edition 1 is 01's, and what is promised of backgrounds
pub mod Present
pub mod Backgrounds

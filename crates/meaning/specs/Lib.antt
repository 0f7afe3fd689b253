-- What document 01 says, and what the landed requests of 02 change in it. Read the files in this order, with 01 beside them. Quotation marks hold their words.
-- CUSC paragraphs are those of the 2011 text of section 14; 14.15.7 alone is of the later edition.
pub mod Rows
pub mod Name
pub mod Editions
pub mod Study
pub mod File
pub mod Answers
pub mod Tables
pub mod Grid
pub mod Network
pub mod Scaled
pub mod Generation
pub mod Direction
pub mod Proposal
pub mod Systems
pub mod Sharing
pub mod Charging
pub mod Figures
pub mod Text
pub mod Sheet
pub mod Outcome
pub mod Edges
pub mod Conditions
pub mod Refusals
pub mod Read
pub mod Distances
pub mod Demands
pub mod Mirror
pub mod Versions
pub mod Backgrounds
pub mod Shares
pub mod OnlyDirections
pub mod Calls
-- no words of 01: arrays and searches as code has them
pub mod Columns
pub mod First

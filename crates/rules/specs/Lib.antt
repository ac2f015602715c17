-- The book of rules: document 01 as definitions over lists of numbers, in the order of that paper.
-- What the expander covers, and how a run ends
pub mod Bytes
pub mod Places
pub mod Answers
-- Reading tokens
pub mod Marks
pub mod Source
pub mod Tokens
-- Sets of named texts (02, request 1)
pub mod Chunks
pub mod Sets
-- Calls, arguments and definitions
pub mod Table
pub mod Streams
pub mod State
pub mod Arguments
-- The predefined macros
pub mod Words
pub mod Numerals
pub mod Operators
pub mod Expression
pub mod Results
pub mod Macros
-- Steps, runs, room, and what a call promises
pub mod Step
pub mod Changes
pub mod Run
pub mod Room
pub mod Contract
-- Which line is that? (02, request 6)
pub mod Lines
-- Every byte once (02, request 8)
pub mod History
-- The sheet itself (02, request 4)
pub mod Sheets
-- Worked texts
pub mod Cases

-- Statement
pub mod Holds
pub mod Columns
pub mod Value
pub mod Values
pub mod Field
pub mod Reading
pub mod Writing
pub mod Days
pub mod Texts
pub mod Telling
pub mod Json
pub mod SessionRows
pub mod Words
pub mod OutputRows
pub mod Laws
pub mod TextLaws
-- Inside
pub mod Seen
pub mod Said
pub mod Given
pub mod Told

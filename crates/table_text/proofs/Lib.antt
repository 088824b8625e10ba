pub mod CountedLines
pub mod Numbers
pub mod RisingNumbers
pub mod SpelledRows
pub mod ToldLines

mod GivenRows
mod ToldWords

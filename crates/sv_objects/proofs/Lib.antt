mod CleanLaws
mod LastMade

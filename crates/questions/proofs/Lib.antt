-- one line more, and words that are cut
mod More

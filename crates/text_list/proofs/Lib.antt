mod EntryLines
mod Told

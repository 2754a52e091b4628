-- Laws of the arms of a match.
mod Arms

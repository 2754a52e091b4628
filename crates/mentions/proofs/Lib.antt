-- Laws of what is lent.
mod Laws

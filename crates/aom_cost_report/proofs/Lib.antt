mod GraphGrowing
mod Going
mod Growing

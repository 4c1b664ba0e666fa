mod Among
mod Cut

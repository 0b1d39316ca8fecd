mod PartLemmas
mod Packs

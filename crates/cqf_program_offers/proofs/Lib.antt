mod Judged
mod Making

mod Memory
mod Threads

mod Alone
mod Answering
mod Places

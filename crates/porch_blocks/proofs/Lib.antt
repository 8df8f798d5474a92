mod Choices
mod Stacks

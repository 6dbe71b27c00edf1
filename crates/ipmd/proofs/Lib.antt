mod Statuses
mod Replaying
mod Endings
mod Running
mod Preparing

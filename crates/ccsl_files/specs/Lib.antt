pub mod FileSystem

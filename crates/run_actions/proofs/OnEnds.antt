pub mod EndsSo

mod Lists
mod Cuts
mod Numbers
mod Others
mod Turning
mod Closing

mod Pushed
mod Quoted

mod Pasted
